pub mod Files
pub mod Played
