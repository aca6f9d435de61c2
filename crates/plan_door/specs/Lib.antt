pub mod Faults
pub mod Hints
pub mod Keys
pub mod Serve
pub mod Turns
pub mod Ports
pub mod Logs
pub mod ReplayRun
