pub mod Differ
pub mod Found
