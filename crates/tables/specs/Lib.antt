pub mod Words
pub mod Answers
pub mod Parts
pub mod Setpoints
pub mod Files
