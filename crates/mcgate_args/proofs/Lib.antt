pub mod FleetVerdicts
pub mod StopLemmas
