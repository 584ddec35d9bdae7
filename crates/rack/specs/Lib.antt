pub mod Refusals
pub mod Edits
pub mod Changes
pub mod Meaning
pub mod Puts
pub mod Writes
pub mod Files
pub mod Blank
