pub mod Header
pub mod Formats
pub mod Bytes
pub mod Outcome
pub mod Results
pub mod Refused
