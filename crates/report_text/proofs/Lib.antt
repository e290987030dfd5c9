pub mod ImageLaws
pub mod CountLaws
