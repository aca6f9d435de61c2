pub mod Errors
pub mod Statuses
