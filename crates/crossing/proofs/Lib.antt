pub mod Dashes
pub mod Laws
pub mod Styles
