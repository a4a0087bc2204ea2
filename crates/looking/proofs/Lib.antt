pub mod Confirms
pub mod Looks
