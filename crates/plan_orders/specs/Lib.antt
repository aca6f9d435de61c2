pub mod Outputs
