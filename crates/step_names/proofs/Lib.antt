pub mod Same
pub mod Named
mod Turns
pub mod Numbers
