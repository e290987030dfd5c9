pub mod Moesi
pub mod Phases
