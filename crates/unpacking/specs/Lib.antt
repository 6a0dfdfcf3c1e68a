pub mod AsWords
pub mod Parts
pub mod Unpacked
