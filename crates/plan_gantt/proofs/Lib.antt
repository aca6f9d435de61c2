pub mod ColumnLemmas
pub mod CellLemmas
pub mod DayTextLemmas
pub mod ShopLineLemmas
pub mod ShopChartLemmas
pub mod OnceLemmas
pub mod ProjectOnceLemmas
pub mod DaysOnceLemmas
