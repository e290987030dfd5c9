pub mod Caches
pub mod Fold
pub mod Copies
pub mod Histories
pub mod Worked
pub mod Wrong
