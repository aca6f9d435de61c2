pub mod LeftLemmas
pub mod GuideLemmas
mod BoundLemmas
