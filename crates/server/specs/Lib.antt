pub mod Turn
pub mod Gather
pub mod Prefix
pub mod Batch
