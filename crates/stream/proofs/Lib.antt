pub mod Standing
pub mod Blockers
pub mod Nearer
pub mod Turns
pub mod Theorems
