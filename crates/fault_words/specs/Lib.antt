pub mod Troubles
pub mod Laws
pub mod Misfits
pub mod Lines
pub mod Words
pub mod Finding
