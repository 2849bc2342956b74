pub mod Agreement
pub mod Calls
pub mod Events
pub mod Ends
pub mod Flow
