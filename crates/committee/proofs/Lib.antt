pub mod Asked
pub mod Rotates
pub mod Aborts
