pub mod Settles
pub mod Children
pub mod Cuts
