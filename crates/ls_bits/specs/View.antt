-- How the code's values are seen as the standard's.
pub mod Packing
pub mod Plain
pub mod Room
pub mod SliceRooms
pub mod Taking
