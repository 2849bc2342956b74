pub mod ConnectionJoined
pub mod Closing
pub mod Whole
pub mod Determined
pub mod ServedAlike
