pub mod WordLengths
pub mod OtherProtocols
pub mod Lifting
pub mod Dialects
pub mod RequestLaws
pub mod Through
pub mod ReaderLaws
mod EndsLaw
pub mod ClientStreams
pub mod Shorter
pub mod Fronts
pub mod ConnectionRequests
pub mod Passing
pub mod Forms
pub mod Answers
pub mod Lines
pub mod Hits
