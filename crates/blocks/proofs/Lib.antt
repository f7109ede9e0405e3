pub mod BlockLaws
pub mod ChecksumLaws
pub mod SumLaws
pub mod LaneLaws
pub mod DirectoryLaws
pub mod Document01
pub mod WithoutHeight
pub mod Theorems
