pub mod AtWorkLaws
pub mod ScriptLaws
pub mod TurnLaws
