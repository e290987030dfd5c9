pub mod Queue
pub mod Props
