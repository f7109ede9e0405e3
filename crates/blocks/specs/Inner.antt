pub mod Lanes
pub mod Reciprocal
