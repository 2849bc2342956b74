pub mod Opens
pub mod Grown
pub mod Paired
pub mod Printing
pub mod Steps
