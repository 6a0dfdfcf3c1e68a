pub mod Firsts
pub mod Clean
