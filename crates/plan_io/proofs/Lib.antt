pub mod Walks
pub mod SentLemmas
