pub mod Layout
pub mod Held
pub mod Permitted
pub mod Leaves
