pub mod SoundLemmas
pub mod SweepLemmas
pub mod TableLemmas
pub mod PartLemmas
pub mod ChangeLemmas
pub mod RowLemmas
pub mod MetaRowLemmas
pub mod CallLemmas
