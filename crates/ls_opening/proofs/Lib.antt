pub mod DeviceLemmas
pub mod ZipLemmas
