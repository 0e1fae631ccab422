pub mod Demand
pub mod Examples
