pub mod Usage
pub mod Steps
pub mod Changes
pub mod InUse
