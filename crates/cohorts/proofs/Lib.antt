pub mod Watches
pub mod Draws
