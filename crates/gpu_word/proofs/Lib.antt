pub mod Pieces
pub mod Seats
pub mod Parts
pub mod Written
