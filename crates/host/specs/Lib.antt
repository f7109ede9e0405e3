pub mod Cab
pub mod Reports
