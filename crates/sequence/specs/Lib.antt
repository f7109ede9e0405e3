pub mod Sequence
pub mod Cases
pub mod Claims
