pub mod Fitting
pub mod Counting
