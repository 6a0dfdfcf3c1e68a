pub mod Writes
pub mod Trips
