pub mod Kept
pub mod Laws
pub mod Trials
pub mod Generated
