pub mod DayLemmas
pub mod CountLemmas
pub mod SequenceLemmas
pub mod RowLemmas
pub mod ListLemmas
pub mod LawLemmas
