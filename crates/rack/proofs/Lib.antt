pub mod Lawful
pub mod Channels
pub mod Meaning
mod Texts
pub mod Puts
