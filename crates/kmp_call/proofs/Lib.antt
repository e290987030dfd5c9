pub mod BeneathLaws
pub mod CallLaws
pub mod InputLaws
pub mod RunLemmas
pub mod StatusLemmas
pub mod WordLaws
