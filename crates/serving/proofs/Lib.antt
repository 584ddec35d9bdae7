pub mod Texts
pub mod Records
pub mod Writes
pub mod Searching
pub mod Sole
pub mod Chained
pub mod Answered
pub mod Finding
