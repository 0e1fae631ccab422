pub mod Lays
pub mod Kept
pub mod Sound
pub mod Conics
pub mod Examples
