pub mod Canonical
pub mod Faults
pub mod Netpbm
pub mod Parameters
pub mod Picture
pub mod Tuning
pub mod View
