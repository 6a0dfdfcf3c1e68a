pub mod Sizes
pub mod Families
pub mod Replaced
