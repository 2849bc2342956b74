pub mod Stops
pub mod Program
pub mod BadLines
pub mod Fleets
pub mod Planning
