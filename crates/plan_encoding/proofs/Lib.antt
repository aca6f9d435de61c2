pub mod EncodingLemmas
pub mod Windows1252Lemmas
pub mod Utf16Lemmas
pub mod RoundTripLemmas
