pub use Rattle.plan_sgs.specs.Problem
pub use Rattle.plan_shop.specs.Shop
pub use Rattle.plan_active.specs.Shifts
