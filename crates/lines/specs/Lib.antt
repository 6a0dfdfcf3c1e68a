pub mod Says
pub mod Numeral
