pub mod Rows
pub mod Tells
