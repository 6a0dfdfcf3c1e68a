pub mod Settings
pub mod Sections
pub mod Decided
pub mod Told
