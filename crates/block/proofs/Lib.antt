pub mod Shape
pub mod Joins
pub mod Joining
pub mod Looking
pub mod Theorems
