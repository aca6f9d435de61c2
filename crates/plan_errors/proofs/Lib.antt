pub mod CodeLemmas
pub mod EntryLemmas
pub mod PartLemmas
pub mod HintLemmas
pub mod JsonLemmas
pub mod OutputLemmas
pub mod RefusalLemmas
