pub mod Tile
pub mod Validate
pub mod Document01
pub mod WithoutHeight
pub mod Accepted
