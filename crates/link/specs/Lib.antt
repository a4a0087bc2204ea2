pub mod Turn
pub mod Ends
pub mod Gather
pub mod Waiting
pub mod Settle
