pub mod Few
pub mod Panels
pub mod Working
pub mod Alone
