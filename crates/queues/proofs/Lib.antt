pub mod Entries
pub mod Parts
pub mod Rounds
pub mod Numbered
pub mod Items
pub mod Joins
pub mod Once
