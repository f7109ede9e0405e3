pub mod Cut
pub mod Walk
pub mod Places
