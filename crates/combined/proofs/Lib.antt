pub mod Ceilings
pub mod Sides
