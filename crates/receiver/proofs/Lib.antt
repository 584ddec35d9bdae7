pub mod Receptions
pub mod Holding
pub mod Pending
