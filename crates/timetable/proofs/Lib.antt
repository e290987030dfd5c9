pub mod TraceLaws
pub mod FirstClockLaws
pub mod WithinLaws
pub mod TraceLengthLaws
pub mod BoundLaws
pub mod ClockLaws
