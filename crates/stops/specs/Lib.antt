pub mod Stops
pub mod Arguments
pub mod WithoutHeight
pub mod Inner
