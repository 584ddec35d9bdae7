pub mod AskedChannels
pub mod Reading
pub mod Meant
pub mod Serving
pub mod Writing
pub mod Answering
