pub mod DigitLemmas
pub mod ImageLemmas
pub mod TextLemmas
