pub mod Frames
pub mod Transmissions
mod Meanings
mod Making
