pub mod Steps
pub mod Plans
pub mod Slots
