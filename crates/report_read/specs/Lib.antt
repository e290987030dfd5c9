pub mod BadRow
pub mod Reading
