pub mod Opening
pub mod Admitting
