pub mod Answers
pub mod Own
pub mod Copies
pub mod Next
pub mod Agreeing
pub mod Ending
pub mod Rising
pub mod Sheets
pub mod Painted
pub mod Clashes
pub mod Commuting
pub mod Stages
pub mod Shuffles
pub mod Replays
pub mod Outcomes
pub mod Ends
pub mod Orders
pub mod Texts
pub mod Settling
mod Applied
mod worked
