pub mod Checks
pub mod Encoded
pub mod Steps
pub mod Refusals
pub mod Styles
pub mod Pairs
