pub mod Walks
pub mod Occupied
