pub mod Instants
pub mod DateColumns
pub mod Sequences
pub mod DatedCells
pub mod DatedRows
pub mod DatedLists
pub mod InstantLaws
