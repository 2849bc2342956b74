pub mod Escapes
pub mod Line
pub mod Word
pub mod Number
pub mod Arithmetic
pub mod Spelling
pub mod ReadBack
pub mod Stays
