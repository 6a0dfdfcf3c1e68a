pub mod Decimals
pub mod Walks
