pub mod Asked
pub mod Matched
