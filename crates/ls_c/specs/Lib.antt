pub mod Calls
pub mod Forms
pub mod Refusals
pub mod Requests
pub mod Texts
