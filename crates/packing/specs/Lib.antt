pub mod Packed
pub mod Put
