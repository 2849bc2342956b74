pub mod Given
pub mod Parts
pub mod AtMostOne
pub mod Rest
pub mod Settling
pub mod Jobs
