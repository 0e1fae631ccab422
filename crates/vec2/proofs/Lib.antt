pub mod Points
pub mod Lists
pub mod Tests
