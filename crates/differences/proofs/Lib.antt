pub mod Rows
pub mod Finds
