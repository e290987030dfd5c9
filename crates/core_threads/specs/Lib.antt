pub mod Sides
pub mod Runs
pub mod Workers
