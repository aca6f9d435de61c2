pub use Rattle.plan_shop.specs.Shop
pub use Rattle.plan_prove.specs.Proofs
pub use Rattle.plan_solve.specs.Solutions
pub use Rattle.plan_solve.specs.Sessions
