pub mod Replies
pub mod Refusing
pub mod Outcomes
pub mod Bytewise
pub mod Wholes
pub mod Computed
