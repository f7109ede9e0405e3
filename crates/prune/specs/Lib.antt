pub mod Prune
pub mod WithoutHeight
pub mod Claims
pub mod Inner
