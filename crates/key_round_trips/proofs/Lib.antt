mod Fields
pub mod RoundTrips
