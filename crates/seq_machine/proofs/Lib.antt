pub mod Differences
pub mod EnteringLaws
pub mod ReachingLaws
