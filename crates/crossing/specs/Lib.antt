pub mod Answers
pub mod Builder
pub mod Dash
pub mod Laws
pub mod Replay
