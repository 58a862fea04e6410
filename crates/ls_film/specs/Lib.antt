pub mod Coding
pub mod Film
pub mod Listing
pub mod Showing
pub mod View
