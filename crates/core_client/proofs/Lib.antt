pub mod AtOnce
pub mod Fronts
pub mod Places
pub mod Resting
