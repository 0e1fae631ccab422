pub mod Loops
pub mod Turns
pub mod Phases
pub mod Runs
pub mod Source
pub mod Gaps
pub mod Examples
pub mod Laws
