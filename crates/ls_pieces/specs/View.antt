-- When orders are equal.
pub mod Alike
