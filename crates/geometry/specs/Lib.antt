pub mod Box
pub mod Distance
pub mod Margin
pub mod Corners
pub mod Axes
pub mod Around
pub mod Calls
pub mod Claims
