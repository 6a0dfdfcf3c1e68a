pub mod Rows
pub mod Reshapes
