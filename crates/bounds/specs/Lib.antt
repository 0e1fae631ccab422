pub mod Bounds
pub mod Range
pub mod Answer
