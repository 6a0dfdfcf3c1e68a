pub mod Shuffles
pub mod Sorts
pub mod Failing
