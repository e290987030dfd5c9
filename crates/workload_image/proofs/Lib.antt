mod PassesLemmas
mod BodiesLemmas
mod LinesLemmas
pub mod ProgramLaws
