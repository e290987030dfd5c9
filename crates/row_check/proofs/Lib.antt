pub mod ClocksLemmas
pub mod JudgmentLaws
pub mod WithinLemmas
pub mod LimitLemmas
pub mod RowLemmas
pub mod EndLaws
