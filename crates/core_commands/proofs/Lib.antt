pub mod Lines
pub mod Idle
pub mod Commands
pub mod Counting
pub mod ByPlace
pub mod Formed
