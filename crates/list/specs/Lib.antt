pub mod Slices
pub mod Inner
