pub mod AtWork
pub mod Eager
pub mod Script
pub mod Turns
