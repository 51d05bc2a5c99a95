pub mod Seats
pub mod Choice
