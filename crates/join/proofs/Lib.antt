pub mod Running
pub mod Calling
pub mod Writes
pub mod Theorems
