pub mod System
pub mod Props
