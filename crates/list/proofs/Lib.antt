pub mod Insertion
pub mod Laying
pub mod Gap
pub mod Full
pub mod Added
pub mod Clearing
pub mod Padding
pub mod Theorems
