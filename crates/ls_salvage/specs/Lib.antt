pub mod Salvage
pub mod Starts
pub mod View
