mod FaultLemmas
mod FileLemmas
mod KindLemmas
mod SoundLemmas
mod WeekLemmas
