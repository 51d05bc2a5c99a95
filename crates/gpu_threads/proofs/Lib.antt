pub mod Shared
pub mod Made
pub mod Complete
pub mod Cutting
pub mod Watched
pub mod Crew
pub mod Told
