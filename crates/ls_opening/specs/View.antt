pub mod Devices
