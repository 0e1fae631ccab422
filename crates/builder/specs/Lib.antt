pub mod Call
pub mod Build
pub mod Laid
pub mod Replied
