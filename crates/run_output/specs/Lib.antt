pub mod Page
pub mod Pieces
pub mod Parts
pub mod Runs
