pub mod Walks
pub mod Desks
pub mod Core
pub mod Answers
pub mod Stepping
pub mod Invariant
pub mod Making
