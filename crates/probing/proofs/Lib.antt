pub mod Asking
pub mod Outcome
