pub mod Numerals
pub mod Pairs
pub mod Lengths
pub mod Rows
pub mod Telling
pub mod Others
pub mod Parts
