pub mod Ends
pub mod Answer
pub mod Dash
pub mod Outline
pub mod Runs
pub mod Zeros
