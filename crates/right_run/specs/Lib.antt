pub mod Cycles
pub mod Stages
pub mod Seeded
pub mod Turns
pub mod Right
