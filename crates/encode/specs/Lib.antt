pub mod Supply
pub mod Encode
pub mod Document01
