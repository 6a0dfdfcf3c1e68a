pub mod Comes
pub mod Lists
