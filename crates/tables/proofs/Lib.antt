pub mod Bools
pub mod Tables
pub mod Keys
pub mod Drops
pub mod Ids
pub mod Sifted
pub mod Typed
