pub mod LetterLaws
pub mod CoherenceLaws
pub mod HitLaws
pub mod TransitionLaws
pub mod FinishLaws
