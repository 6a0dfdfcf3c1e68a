pub mod Calls
pub mod Agree
