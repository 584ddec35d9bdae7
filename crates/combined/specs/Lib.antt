pub mod Ceilings
pub mod Sides
pub mod CeilingLaw
