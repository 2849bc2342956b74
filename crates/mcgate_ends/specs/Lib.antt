pub mod Input
pub mod Stops
pub mod Ends
pub mod FleetLines
pub mod FleetFaults
pub mod FleetMembers
