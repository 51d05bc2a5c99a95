pub mod Takers
pub mod Collected
pub mod Committed
pub mod Viewed
pub mod Outs
pub mod Fitting
pub mod Batched
pub mod Looked
pub mod Grown
pub mod Onward
mod Applied
