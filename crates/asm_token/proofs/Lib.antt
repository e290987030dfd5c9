pub mod DigitsLemmas
pub mod TokensLemmas
pub mod PrintingLaws
pub mod WorkedLemmas
