pub mod Views
pub mod Rule
pub mod Seen
pub mod Clients
