pub mod MemoryLemmas
pub mod PartLemmas
pub mod RunLemmas
pub mod SalvageLemmas
pub mod SkipLemmas
pub mod StartLemmas
