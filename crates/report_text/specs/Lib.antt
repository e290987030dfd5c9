pub mod Report
pub mod Counts
pub mod Text
pub mod Form
pub mod Right
pub mod Worked
