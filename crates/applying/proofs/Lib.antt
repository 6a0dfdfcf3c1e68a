pub mod Asks
pub mod Applies
