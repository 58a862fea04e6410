pub mod LivesLemmas
pub mod RecordedLemmas
