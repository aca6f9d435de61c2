pub mod WeekLemmas
pub mod IndexLemmas
pub mod DayLemmas
pub mod HolidayLemmas
pub mod TextLemmas
pub mod CalendarOnceLemmas
