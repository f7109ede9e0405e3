pub mod Summing
pub mod Theorems
