pub mod Calls
pub mod Replay
pub mod RuleKinds
pub mod Run
