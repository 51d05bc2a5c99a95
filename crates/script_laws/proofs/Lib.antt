pub mod Scripts
pub mod Runs
pub mod Dumps
pub mod Outputs
pub mod Events
pub mod Six
pub mod Counting
pub mod Waits
pub mod Both
mod worked
pub mod Words
pub mod Values
pub mod Taken
mod Lines
mod RoundTexts
mod Works
mod Rounds
mod Streams
pub mod Script
pub mod Lengths
pub mod Texts
pub mod Losses
mod Applied
