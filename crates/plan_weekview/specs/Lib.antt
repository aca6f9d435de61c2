pub mod WeekDays
pub mod DaysOutputs
pub mod DatedLines
