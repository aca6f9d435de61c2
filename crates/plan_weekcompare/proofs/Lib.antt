mod LineLemmas
mod RowLemmas
mod ShownLemmas
mod InstantLemmas
mod TimeLemmas
mod OutputLemmas
