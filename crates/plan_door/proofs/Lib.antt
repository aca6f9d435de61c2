pub mod TurnLemmas
pub mod SocketLemmas
pub mod ReplayLemmas
pub mod ResultLemmas
pub mod KeyLemmas
pub mod BookLemmas
