pub mod Weeks
pub mod Inputs
pub mod WeekAnswers
pub mod Overloads
pub mod Tardiness
pub mod TardinessAnswers
pub mod Tightening
