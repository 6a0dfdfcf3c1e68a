pub mod Law
pub mod Wanted
pub mod Loop
pub mod Drawless
