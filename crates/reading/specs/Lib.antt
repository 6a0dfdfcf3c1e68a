pub mod Told
pub mod Stream
pub mod Reshape
