pub mod RowTexts
pub mod Digests
