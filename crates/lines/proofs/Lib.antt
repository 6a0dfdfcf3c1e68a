pub mod Lays
pub mod Numerals
pub mod Shown
pub mod Widths
