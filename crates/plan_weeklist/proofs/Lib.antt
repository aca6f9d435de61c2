mod ListedWeekLemmas
mod ListedLemmas
