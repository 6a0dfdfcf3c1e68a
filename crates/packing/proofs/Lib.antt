pub mod Lefts
pub mod Sizes
pub mod Puts
pub mod Nesteds
pub mod Packs
pub mod Sums
