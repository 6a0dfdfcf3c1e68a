pub mod Held
mod Rooms
