pub mod Sharing
pub mod Served
pub mod Judging
pub mod Certified
pub mod OverTcp
