pub mod Parse
pub mod Grammar
pub mod Claims
