pub mod Zeros
pub mod Number
pub mod Bytes
