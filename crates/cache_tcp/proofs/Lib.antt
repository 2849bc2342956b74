pub mod Runs
pub mod Keys
pub mod Fronts
pub mod Exits
pub mod Oldest
pub mod Touching
pub mod Asking
