pub mod Call
pub mod Given
pub mod Outcome
pub mod Refused
pub mod Right
pub mod Status
pub mod Told
