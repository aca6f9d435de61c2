pub mod TableTree
