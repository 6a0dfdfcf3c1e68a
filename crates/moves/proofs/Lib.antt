pub mod Exiting
pub mod Kept
