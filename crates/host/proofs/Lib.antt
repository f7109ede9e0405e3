mod MarginLaws
pub mod Theorems
