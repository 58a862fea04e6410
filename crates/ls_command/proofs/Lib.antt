pub mod CutLemmas
pub mod FramesLemmas
pub mod MatchLemmas
pub mod NumberLemmas
pub mod PairLemmas
pub mod PresetLemmas
