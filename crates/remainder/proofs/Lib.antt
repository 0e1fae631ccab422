pub mod Sizes
pub mod Values
