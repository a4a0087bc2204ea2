pub mod Ends
pub mod Held
pub mod Chunks
pub mod Feeding
