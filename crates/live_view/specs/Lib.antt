pub mod Versions
pub mod Fronts
pub mod Looks
pub mod Steps
pub mod Rule
pub mod Nexts
pub mod Copies
pub mod Seen
