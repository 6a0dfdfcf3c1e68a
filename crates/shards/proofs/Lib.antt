pub mod OfBounds
pub mod OfRotations
pub mod Order
