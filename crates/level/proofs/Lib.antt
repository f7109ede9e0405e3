mod Closest
mod Kept
mod Units
mod Nearest
mod Strict
mod Whole
mod CallLaws
mod LevelLaws
mod Answers
pub mod Theorems
