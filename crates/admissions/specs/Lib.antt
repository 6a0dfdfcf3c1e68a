pub mod Granted
pub mod Seated
