pub mod Fills
mod Walks
