pub mod EncodeLaws
pub mod SupplyLaws
