pub mod Stays
pub mod Turns
