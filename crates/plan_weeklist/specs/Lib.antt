pub mod Faults
pub mod Columns
pub mod Dates
pub mod Rows
pub mod PlainRows
pub mod Lists
pub mod ListedWeeks
pub mod ListedLists
