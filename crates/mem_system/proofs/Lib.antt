pub mod QueueLaws
pub mod SystemLaws
pub mod CallLaws
