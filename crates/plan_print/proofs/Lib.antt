pub mod PrintLemmas
pub mod SheetLemmas
