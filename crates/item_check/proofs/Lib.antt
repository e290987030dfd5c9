pub mod HeldLemmas
pub mod SetLemmas
pub mod FoldLaws
pub mod HeldLaws
pub mod IllegalLaws
pub mod WorkedItemLaws
