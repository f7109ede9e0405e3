pub mod ArgumentLaws
pub mod StopLaws
pub mod TakeLaws
