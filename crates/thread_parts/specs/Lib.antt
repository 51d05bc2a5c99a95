pub mod Clients
pub mod Acts
pub mod Watches
