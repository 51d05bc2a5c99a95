pub mod Picture
pub mod Rows
pub mod Images
pub mod Conversion
pub mod Sums
