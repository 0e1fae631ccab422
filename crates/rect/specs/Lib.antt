pub mod Rect
