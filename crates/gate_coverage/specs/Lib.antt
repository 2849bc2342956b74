pub mod Cover
pub mod Computed
pub mod Exact
pub mod Pools
pub mod Doubted
pub mod Seen
pub mod Asked
