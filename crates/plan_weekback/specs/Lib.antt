pub mod Entries
pub mod Columns
pub mod Readings
pub mod Sameness
pub mod Comparisons
pub mod Outputs
