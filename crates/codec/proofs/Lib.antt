pub mod Zeros
pub mod Number
pub mod Holds
pub mod Bytes
pub mod Written
