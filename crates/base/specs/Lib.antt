pub mod Refusal
pub mod Answer
pub mod Every
pub mod HowMany
pub mod Lists
pub mod Tabulate
pub mod Over
