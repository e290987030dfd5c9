pub mod Differences
pub mod Entering
pub mod Reaching
pub mod Sound
