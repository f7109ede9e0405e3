pub mod Shift
pub mod Subtracting
pub mod OneAxis
pub mod AllAxes
mod Line
mod BestEnd
pub mod BestPoint
mod Corners
pub mod Around
pub mod ByAxis
pub mod TwoOrThree
pub mod Theorems
