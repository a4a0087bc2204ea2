pub mod Numbers
pub mod Words
pub mod Counts
pub mod Updates
pub mod Sound
pub mod Complete
pub mod Exactly
pub mod Theorems
