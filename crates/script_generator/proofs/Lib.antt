pub mod Hexes
pub mod Joining
pub mod Rounds
