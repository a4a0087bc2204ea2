pub mod GatherAll
pub mod Prefixes
pub mod Turns
pub mod Crashes
pub mod Accepts
pub mod Batches
pub mod Moves
