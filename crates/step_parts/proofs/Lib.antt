mod Plans
mod Claimed
pub mod Asking
mod Executed
