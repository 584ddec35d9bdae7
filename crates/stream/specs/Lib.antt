pub mod Blocks
pub mod Interruptions
pub mod Streams
