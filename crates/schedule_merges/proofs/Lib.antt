pub mod Merges
