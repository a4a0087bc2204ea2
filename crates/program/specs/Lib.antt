pub mod Claims
pub mod CaseS
