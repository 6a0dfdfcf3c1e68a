pub mod Bytes
pub mod Parts
pub mod Rows
pub mod Sections
pub mod Boards
