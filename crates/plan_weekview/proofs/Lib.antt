mod DayLemmas
mod OutputLemmas
