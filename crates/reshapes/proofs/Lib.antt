pub mod OfReshapes
pub mod OfSeats
pub mod SeatMoves
