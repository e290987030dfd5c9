pub mod Places
pub mod Labels
pub mod Passes
pub mod DelaySlots
pub mod Worked
