pub mod Check
pub mod Frames
pub mod Transmissions
pub mod Making
pub mod Views
