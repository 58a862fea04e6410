-- How the code's values (readers, writers, faults) are seen as films, and as what is written for these.
pub mod Ahead
pub mod Codestreams
pub mod Coding
pub mod Engine
pub mod Given
pub mod Memory
pub mod Parts
pub mod Playing
pub mod Sources
pub mod Steps
pub mod Stopping
pub mod Texts
