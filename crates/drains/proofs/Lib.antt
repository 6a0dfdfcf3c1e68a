pub mod Drains
pub mod Schedules
