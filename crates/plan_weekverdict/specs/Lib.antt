pub mod Verdicts
pub mod Starts
pub mod Pins
