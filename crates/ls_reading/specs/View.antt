pub mod Commands
pub mod Each
pub mod Indexes
pub mod Listed
pub mod Parts
pub mod Replays
pub mod Statuses
