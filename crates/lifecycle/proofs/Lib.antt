pub mod Ticks
pub mod Ages
