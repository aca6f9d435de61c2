pub mod HolidayText
pub mod Rest
pub mod WeekdayText
