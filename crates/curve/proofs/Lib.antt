pub mod Bends
pub mod Numbers
