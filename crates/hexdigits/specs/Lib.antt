pub mod Hex
pub mod Answers
