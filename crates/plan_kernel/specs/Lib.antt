pub mod Inputs
pub mod Plans
pub mod Literals
pub mod Clauses
pub mod Reasons
pub mod Kernels
pub mod Shops
pub use Rattle.plan_sgs.specs.Problem
