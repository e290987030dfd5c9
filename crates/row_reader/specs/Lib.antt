pub mod Rows
pub mod Fields
pub mod Numbers
pub mod Reading
pub mod Starts
pub mod Gives
