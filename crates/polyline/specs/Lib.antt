pub mod Subpaths
pub mod Flatten
pub mod Polylines
pub mod Pass
pub mod Kept
pub mod Laws
