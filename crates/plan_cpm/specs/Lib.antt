pub mod Lengths
pub mod Dates
pub mod DateFields
pub mod Successors
pub mod Reached
pub use Rattle.plan_net.specs.Network
pub use Rattle.plan_net.specs.Path
pub use Rattle.plan_net.specs.Limits
