pub mod ValueLaws
pub mod RowLaws
pub mod TimedLaws
pub mod PlainRowLaws
pub mod LoopLemmas
