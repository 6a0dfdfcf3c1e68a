pub mod Seeking
pub mod Asked
pub mod Cleared
