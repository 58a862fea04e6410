pub mod Ends
pub mod Parts
pub mod Scans
pub mod Strict
