pub mod RowLemmas
pub mod SpellingLemmas
pub mod AcceptanceLemmas
pub mod ListLemmas
pub mod PreparedLemmas
pub mod AssignmentLemmas
mod OptionedLemmas
