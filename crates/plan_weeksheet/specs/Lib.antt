pub mod Rectangles
pub mod WeekRectangles
pub mod Uses
pub mod Drawn
pub mod Names
pub mod Pages
pub mod Outputs
