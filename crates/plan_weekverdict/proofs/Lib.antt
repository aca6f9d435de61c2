mod MissLemmas
mod ArcLemmas
mod PinLemmas
mod StartLemmas
mod VerdictLemmas
