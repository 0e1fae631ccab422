pub mod Conic
pub mod Halves
