pub mod Marking
pub mod TileLoop
pub mod StopLoop
