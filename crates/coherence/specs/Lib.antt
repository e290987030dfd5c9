pub mod Bus
pub mod Coherence
pub mod Split
