pub mod CodeLemmas
pub mod CodeLaws
pub mod SegmentsLaws
pub mod ImageLaws
