pub mod Lapses
