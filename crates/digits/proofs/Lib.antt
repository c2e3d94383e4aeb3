pub mod DecimalLaws
pub mod RoundTrip
