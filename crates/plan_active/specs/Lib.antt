pub mod Shifts
pub mod Ranks
pub mod Bounds
pub use Rattle.plan_sgs.specs.Problem
pub use Rattle.plan_shop.specs.Shop
