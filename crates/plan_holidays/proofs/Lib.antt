pub mod LineLemmas
pub mod EntryLemmas
pub mod NamedLemmas
pub mod ExactLemmas
pub mod WeekdayLemmas
