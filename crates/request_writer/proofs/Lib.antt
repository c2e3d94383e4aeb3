pub mod Frames
pub mod WriterLaws
pub mod RoundTrip
