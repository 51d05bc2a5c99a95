pub mod Beside
pub mod Putting
pub mod Storing
pub mod Fetching
pub mod Cutting
pub mod Parts
pub mod Counting
