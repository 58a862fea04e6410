pub mod EachLemmas
pub mod StatusLemmas
pub mod WritingLemmas
