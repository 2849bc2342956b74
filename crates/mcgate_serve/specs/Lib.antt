pub mod Serves
pub mod Remembers
pub mod LooksUp
pub mod Emptied
pub mod Names
pub mod Limits
pub mod InFleet
pub mod Told
