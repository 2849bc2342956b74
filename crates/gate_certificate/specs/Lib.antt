pub mod Format
pub mod Testing
pub mod Verdict
