pub mod Bend
