pub mod ListLaws
pub mod OptionLaws
pub mod NumberLaws
pub mod RangeLaws
