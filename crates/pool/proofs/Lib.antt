pub mod Pools
pub mod Draws
pub mod Alone
