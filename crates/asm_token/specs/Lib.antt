pub mod Bytes
pub mod Faults
pub mod Numbers
pub mod Tokens
pub mod Printing
pub mod Worked
