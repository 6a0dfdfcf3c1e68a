pub mod Numbers
pub mod Shards
pub mod Places
pub mod Answers
