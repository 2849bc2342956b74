pub mod Either
pub mod Meanings
pub mod Found
pub mod Bytes
