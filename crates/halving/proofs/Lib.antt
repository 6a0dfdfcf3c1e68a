pub mod Gates
pub mod Halves
