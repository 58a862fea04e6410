pub mod Index
pub mod Verify
pub mod View
