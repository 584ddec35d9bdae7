pub mod Hearing
pub mod Writing
pub mod Responses
