pub mod Scripts
pub mod Going
pub mod Laws
pub mod Runs
pub mod Needs
pub mod Choosing
pub mod Outs
