pub mod Laws
pub mod Pieces
pub mod Examples
pub mod Rounded
pub mod Sides
pub mod Clear
