pub mod CsvLemmas
pub mod JsonLemmas
pub mod TextLemmas
