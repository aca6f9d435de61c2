pub mod Orders
pub mod Files
pub mod Kinds
pub mod Lines
pub mod Weeks
pub mod Links
pub mod Texts
pub mod Outputs
