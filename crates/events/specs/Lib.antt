pub mod Loop
pub mod Zeros
pub mod Phase
pub mod Walk
pub mod Drawn
pub mod Runs
pub mod Source
pub mod Laws
