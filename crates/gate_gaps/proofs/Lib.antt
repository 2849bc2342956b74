pub mod Determining
pub mod Trying
pub mod Beside
pub mod Few
pub mod Leaking
pub mod Bait
pub mod Scripts
pub mod Gaps
mod Reaching
mod Naming
pub mod Written
mod Pooling
