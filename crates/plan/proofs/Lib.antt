pub mod Lawful
pub mod Openings
pub mod Measures
pub mod Tables
pub mod Theorems
