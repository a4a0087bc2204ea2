pub mod Names
pub mod Values
