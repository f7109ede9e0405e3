pub mod Gathering
pub mod Filling
pub mod Scanning
pub mod Waiting
