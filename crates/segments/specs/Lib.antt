pub mod Read
pub mod Path
