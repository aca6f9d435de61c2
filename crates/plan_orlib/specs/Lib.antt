pub mod Instances
pub mod Shop
pub mod ShopText
pub mod Says
pub mod Causes
pub use Rattle.plan_psplib.specs.Faults
pub use Rattle.plan_psplib.specs.Document
pub use Rattle.plan_psplib.specs.Plain
pub use Rattle.plan_psplib.specs.Lines
pub use Rattle.plan_psplib.specs.Causes as FileCauses
