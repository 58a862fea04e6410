pub mod Bits
pub mod Data
pub mod Golomb
pub mod Stuffing
pub mod View
