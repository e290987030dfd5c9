pub mod StartLaws
pub mod SpellingLaws
pub mod WordLaws
pub mod NumberLaws
pub mod RoundTripLaws
pub mod ReadingLemmas
pub mod ReadingLaws
