pub mod Links
pub mod Goes
pub mod EndLaws
pub mod Gathers
pub mod Requests
pub mod Settles
pub mod Once
