pub mod Floats
pub mod KindNames
pub mod UpdateNames
