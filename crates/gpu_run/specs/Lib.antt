pub mod Dumps
pub mod Making
pub mod Reading
pub mod Clients
pub mod Rounds
pub mod Served
pub mod Stands
pub mod Turning
