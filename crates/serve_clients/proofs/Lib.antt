pub mod Marked
pub mod Agreeing
pub mod Noting
