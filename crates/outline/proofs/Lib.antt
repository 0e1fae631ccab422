pub mod Ends
pub mod Caps
pub mod Scratch
pub mod Answers
pub mod Runs
pub mod Zeros
