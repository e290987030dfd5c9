pub mod PortLaws
pub mod LoadedLaws
pub mod SideLaws
pub mod CellLaws
pub mod AnswerLaws
pub mod ChangeLaws
pub mod FlatLaws
