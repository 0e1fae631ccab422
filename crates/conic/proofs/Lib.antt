pub mod Stores
pub mod Levels
