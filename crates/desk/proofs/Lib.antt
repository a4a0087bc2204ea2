pub mod Images
pub mod Desk
pub mod Never1
pub mod Reaches
pub mod Demand3
pub mod Openings
