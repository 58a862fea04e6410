pub mod Collecting
pub mod Orders
pub mod View
