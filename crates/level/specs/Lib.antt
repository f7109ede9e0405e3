pub mod Level
pub mod Claims
pub mod Cases
