pub mod Rows
pub mod Sections
pub mod Heads
pub mod Tells
