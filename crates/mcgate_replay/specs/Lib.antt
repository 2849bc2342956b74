pub mod Growing
pub mod Pairing
pub mod Replay
