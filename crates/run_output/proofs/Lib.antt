pub mod Appending
pub mod Pieces
pub mod Rooms
pub mod Texts
