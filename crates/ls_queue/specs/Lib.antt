pub mod Faults
pub mod History
pub mod Queue
pub mod Steps
pub mod View
