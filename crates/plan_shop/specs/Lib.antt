pub mod Shop
pub mod Words
pub mod Bound
pub mod Rules
pub mod Continuation
pub mod Laws
pub use Rattle.plan_profile.specs.Usage
pub use Rattle.plan_sgs.specs.Problem
pub use Rattle.plan_orlib.specs.Shop as ShopDocs
pub mod Docs
pub mod Names
pub mod Trees
pub mod Checks
