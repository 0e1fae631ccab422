pub mod Vec2
pub mod Points
