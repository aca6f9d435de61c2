pub mod SummaryLemmas
pub mod LineLemmas
