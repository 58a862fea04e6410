-- How the code's values are seen.
pub mod RoundTrips
