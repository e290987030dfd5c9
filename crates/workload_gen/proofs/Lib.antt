pub mod SourceLemmas
pub mod SizeLaws
