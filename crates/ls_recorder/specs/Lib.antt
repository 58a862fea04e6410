pub mod Sizes
pub mod View
