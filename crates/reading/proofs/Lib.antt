pub mod EachKind
pub mod Streams
pub mod Machines
pub mod Members
pub mod Seats
pub mod ReshapeRows
pub mod Bytes
pub mod Boards
