pub mod ConnectionServing
pub mod Steps
pub mod Serving
pub mod Oldest
pub mod Flushing
