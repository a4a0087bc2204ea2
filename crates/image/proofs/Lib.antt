-- Laws that belong to no one function.
pub mod Queued
pub mod Runs
pub mod Whole
pub mod Parts
pub mod Longest
pub mod Stores
pub mod Opens
pub mod Theorems
