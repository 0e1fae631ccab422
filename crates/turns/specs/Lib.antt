pub mod Turn
pub mod Walk
pub mod Plane
pub mod Reason
pub mod Answer
