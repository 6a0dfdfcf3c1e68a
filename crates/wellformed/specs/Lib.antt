pub mod Check
pub mod Tells
