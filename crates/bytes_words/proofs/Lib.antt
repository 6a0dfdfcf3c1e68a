pub mod Digits
pub mod Lays
pub mod Gets
