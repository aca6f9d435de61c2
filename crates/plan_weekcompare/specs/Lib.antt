pub mod Shown
pub mod Lines
pub mod Schedules
pub mod Outputs
