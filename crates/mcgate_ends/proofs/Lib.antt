pub mod InputLemmas
pub mod StopLemmas
