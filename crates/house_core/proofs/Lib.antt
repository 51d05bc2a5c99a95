pub mod Rows
mod Walking
mod Fits
mod Again
mod First
mod Seen
mod Rooms
mod Finishing
mod Meeting
mod Taking
mod Moving
mod Executing
mod AfterStep
mod Fetching
mod Ordering
mod Closes
pub mod Closings
pub mod Held
pub mod Books
