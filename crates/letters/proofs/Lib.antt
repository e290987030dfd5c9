pub mod DecidingLaws
pub mod DecidedLaws
pub mod Histories
pub mod LetterLaws
pub mod CopyLaws
