pub mod BackLemmas
pub mod EntryLemmas
pub mod OutputLemmas
pub mod ReadingLemmas
pub mod SamenessLemmas
