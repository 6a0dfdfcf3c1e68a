pub mod Underway
pub mod Targets
