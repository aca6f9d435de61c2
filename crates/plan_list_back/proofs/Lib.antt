pub mod ListBackLemmas
