pub mod Runs
pub mod Composed
pub mod Claims
