pub mod Arith
pub mod Small
pub mod Root
pub mod Exact
pub mod Count
pub mod Pattern
pub mod Rank
