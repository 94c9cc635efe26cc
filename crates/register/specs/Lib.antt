pub mod Register
pub mod Claims
pub mod Cases
