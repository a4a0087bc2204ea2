pub mod Cuts
pub mod Walks
pub mod PlainText
pub mod Exactly
pub mod Coded
