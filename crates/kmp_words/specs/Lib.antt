pub mod Loaded
pub mod Words
pub mod Input
