pub mod Rules
pub mod Claims
pub mod Cases
