pub mod ByteLemmas
pub mod ChoiceLemmas
pub mod SettleLemmas
