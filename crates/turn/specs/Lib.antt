pub mod Numbers
pub mod Views
pub mod Rule
pub mod Holding
pub mod Counting
pub mod Passes
