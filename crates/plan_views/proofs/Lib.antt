pub mod RowLemmas
pub mod TextLemmas
pub mod DayLemmas
pub mod MomentLemmas
pub mod ReportLemmas
pub mod ChartLemmas
pub mod ChartFitLemmas
