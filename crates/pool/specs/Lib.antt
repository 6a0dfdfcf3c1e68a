pub mod Ranks
pub mod Told
