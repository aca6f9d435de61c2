mod OpenedLemmas
mod StartLemmas
mod OutputLemmas
