pub mod Loads
pub mod Declining
