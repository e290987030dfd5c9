pub mod Held
pub mod Places
pub mod Illegal
pub mod WorkedItems
