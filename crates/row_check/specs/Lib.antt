pub mod Judgments
pub mod Rows
pub mod Clocks
pub mod Worked
