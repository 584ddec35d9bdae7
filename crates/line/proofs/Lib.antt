pub mod Turns
pub mod Soundness
pub mod Answering
