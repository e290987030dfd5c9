pub mod Lists
pub mod Timetables
pub mod Cores
pub mod Outcome
pub mod Difference
