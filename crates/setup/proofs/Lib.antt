pub mod SameIdentity
pub mod SetUps
