mod Ceiling
mod Fields
mod Finite
pub mod Loads
pub mod Percents
pub mod Range
mod Rounding
mod Scaling
