mod FlatLemmas
mod NextLemmas
mod PlacingLemmas
mod TailLemmas
mod HeldLemmas
mod KeepLemmas
mod TurnLemmas
mod FullLemmas
mod LetterLemmas
mod PendingLemmas
pub mod Rows
pub mod NumberLemmas
pub mod ShopBasics
pub mod Reached
pub mod FullWords
pub mod WordCount
pub mod Span
pub mod ShopBound
pub mod Earlier
pub mod WordsReach
pub mod CompetitorLemmas
mod BeforeLemmas
mod ChoiceLemmas
mod RuleLemmas
mod CheckLemmas
mod RoomLemmas
pub mod OnceLemmas
