pub mod Keeping
pub mod Claims
pub mod Executing
