pub mod CollectorLemmas
