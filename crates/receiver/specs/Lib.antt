pub mod Spans
pub mod Summaries
pub mod Holding
