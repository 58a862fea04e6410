-- How the code's values relate to the definitions after the standard and the Netpbm pages.
pub mod Alike
pub mod Chunks
pub mod Devices
pub mod Known
pub mod Laws
pub mod Numbers
pub mod Reading
