pub mod LineLemmas
pub mod WordLemmas
pub mod NumberLemmas
pub mod ArithmeticLemmas
pub mod Spaced
pub mod ReadBack
pub mod Stays
pub mod Firsts
