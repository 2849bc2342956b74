pub mod Faults
pub mod Verdicts
pub mod Residues
pub mod Repeated
