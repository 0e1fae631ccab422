pub mod Segment
pub mod Rule
pub mod Refusal
pub mod Check
pub mod Style
pub mod Points
