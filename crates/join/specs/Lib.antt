pub mod Join
pub mod WithoutHeight
pub mod Claims
pub mod Inner
