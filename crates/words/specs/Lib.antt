pub mod Stored
pub mod Scanning
pub mod Gathering
