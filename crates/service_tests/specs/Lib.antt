pub mod Alone
pub mod Stirred
