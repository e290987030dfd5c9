pub mod Outcome
pub mod Replay
