pub mod Program
pub mod Answered
