pub mod Loads
pub mod LookedUp
pub mod InHistories
pub mod Emptied
mod Told
