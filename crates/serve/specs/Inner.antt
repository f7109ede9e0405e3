pub mod Marks
pub mod Serving
