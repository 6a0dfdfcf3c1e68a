pub mod Tests
pub mod Holding
