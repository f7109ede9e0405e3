pub mod Theorems
pub mod TextLaws
pub mod LineLaws
pub mod RequestLaws
pub mod AnswerLaws
pub mod Cases
