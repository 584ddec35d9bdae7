pub mod Events
pub mod Lines
pub mod Recordings
