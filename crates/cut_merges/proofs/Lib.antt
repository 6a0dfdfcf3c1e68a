pub mod Drains
pub mod Rejoins
pub mod Cuts
