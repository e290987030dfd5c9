pub mod Caches
pub mod View
pub mod Calls
pub mod Inside
