mod Bytes
pub mod Views
