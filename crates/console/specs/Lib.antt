pub mod Limits
pub mod Text
pub mod Line
pub mod Request
pub mod Output
pub mod Claims
pub mod Inner
pub mod Cases
