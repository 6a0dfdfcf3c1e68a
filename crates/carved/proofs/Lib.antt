pub mod Carved
