pub mod Pen
pub mod Lay
pub mod Count
pub mod Lengths
