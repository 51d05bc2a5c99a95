pub mod Batching
pub mod Flushing
pub mod Belonging
pub mod Turning
pub mod Beginning
pub mod Stirring
pub mod Serving
