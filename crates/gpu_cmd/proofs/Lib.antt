pub mod Heads
pub mod Decoders
pub mod Copies
pub mod Memories
pub mod Rising
pub mod Tiles
pub mod Fitting
