pub mod SeenLemmas
pub mod Front
pub mod WriteLemmas
pub mod ServedLemmas
pub mod Sound
pub mod FlagsBack
pub mod ValuesBack
pub mod Back
