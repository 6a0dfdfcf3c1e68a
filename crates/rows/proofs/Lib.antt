pub mod Searches
pub mod Asked
