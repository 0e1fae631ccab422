pub mod Refusal
pub mod Store
