pub mod Desk
pub mod Calls
pub mod Demand3
