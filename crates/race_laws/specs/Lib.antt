pub mod Works
pub mod Settled
pub mod Touches
pub mod Alike
pub mod Laws
