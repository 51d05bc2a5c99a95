pub mod Draws
pub mod Generator
pub mod Appending
