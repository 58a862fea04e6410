pub mod BeginLemmas
mod EndLemmas
mod PartLemmas
mod ScanLemmas
mod StrictLemmas
