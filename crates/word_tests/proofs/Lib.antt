pub mod Tests
pub mod Loops
pub mod Marked
pub mod Turns
pub mod Decides
