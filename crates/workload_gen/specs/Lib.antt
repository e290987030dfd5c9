pub mod Source
pub mod Worked
