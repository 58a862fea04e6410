pub mod GrammarLaws
pub mod GrammarLemmas
pub mod ReplyLemmas
pub mod StepsReadingLemmas
