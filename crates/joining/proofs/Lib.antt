pub mod Placed
pub mod Joins
pub mod Struck
