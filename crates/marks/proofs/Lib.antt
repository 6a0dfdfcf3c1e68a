pub mod Quiets
pub mod Readies
