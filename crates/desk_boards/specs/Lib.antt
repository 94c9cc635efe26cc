pub mod Claims
pub mod Answered
pub mod Cases
