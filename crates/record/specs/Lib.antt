pub mod Reading
pub mod Valid
pub mod Conditions
pub mod Begun
pub mod Did
