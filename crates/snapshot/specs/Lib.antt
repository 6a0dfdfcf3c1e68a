pub mod Written
pub mod ReadAs
