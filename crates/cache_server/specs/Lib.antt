pub mod Expiry
pub mod Contents
pub mod Sound
pub mod Table
pub mod Held
