pub mod Faults
pub mod Verdict
pub mod Reloads
pub mod Asking
pub mod LimitLines
pub mod Blocks
pub mod Finding
