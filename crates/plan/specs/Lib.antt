pub mod FilePlan
pub mod Document01
pub mod Inner
