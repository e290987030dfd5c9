pub mod Names
pub mod Ends
pub mod Rows
pub mod Bounds
