pub mod Lists
pub mod Verdicts
