-- How the code's values are seen.
pub mod Ends
pub mod Memory
pub mod Parts
pub mod Runs
pub mod Salvaged
pub mod Skipping
pub mod Telling
