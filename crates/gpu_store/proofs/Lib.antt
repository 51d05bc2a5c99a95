pub mod Counting
pub mod Drawing
pub mod Lookups
pub mod Painting
pub mod Settled
pub mod Steps
pub mod Totals
pub mod Words
