pub mod Determined
pub mod Exports
pub mod Together
