pub mod RoundTripLemmas
