pub mod Shown
pub mod Texts
