pub mod Table
pub mod Promise
pub mod Asked
pub mod Claims
pub mod Known
