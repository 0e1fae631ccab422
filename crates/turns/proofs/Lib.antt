pub mod Walks
pub mod Never
