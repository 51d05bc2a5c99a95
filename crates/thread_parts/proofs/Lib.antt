pub mod Planned
pub mod Going
