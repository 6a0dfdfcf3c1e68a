pub mod Asked
pub mod Applied
