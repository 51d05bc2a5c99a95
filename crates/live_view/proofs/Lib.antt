pub mod Prefixes
pub mod Keeping
pub mod Adding
pub mod Viewing
pub mod Stepping
pub mod Further
