-- What the contracts of `image` cite.
pub mod Words
pub mod Element
pub mod Read
pub mod Promise
pub mod Claims
