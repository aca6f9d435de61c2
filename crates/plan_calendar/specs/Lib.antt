pub mod WorkingDay
pub mod CalendarText
pub mod Weeks
pub mod DaysOff
pub mod Weekdays
pub mod Hours
