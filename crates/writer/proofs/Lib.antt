pub mod WriteLaws
pub mod BoxNumbers
pub mod BlockFields
pub mod BlockRound
pub mod FileLaws
pub mod SupplyOf
pub mod Document01
pub mod Theorems
