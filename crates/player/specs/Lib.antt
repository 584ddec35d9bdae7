pub mod Progress
pub mod Outputs
pub mod Players
pub mod Playing
pub mod Sections
