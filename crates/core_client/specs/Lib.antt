pub mod ClientState
pub mod Clients
pub mod Fronts
pub mod Heads
pub mod Marks
pub mod Nexts
pub mod Replying
