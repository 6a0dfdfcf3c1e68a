pub mod Rows
pub mod Free
