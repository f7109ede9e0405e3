pub mod Theorems
pub mod TileLaws
pub mod Document01
pub mod WithoutHeight
