mod StateLemmas
mod GraphLemmas
mod CliqueLemmas
mod NodesLemmas
mod ProgressLemmas
