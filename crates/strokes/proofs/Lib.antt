pub mod Pens
pub mod Lays
pub mod Lines
pub mod Counts
pub mod Lengths
pub mod Positive
