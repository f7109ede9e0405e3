pub mod Write
pub mod Accepted
pub mod Made
