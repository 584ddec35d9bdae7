mod Numbers
mod Places
pub mod Patterns
pub mod Faultless
pub mod Inverse
pub mod FirstFaults
