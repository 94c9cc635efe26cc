pub mod Digits
pub mod Times
pub mod Dates
pub mod Stamps
pub mod Names
pub mod Written
pub mod Claims
pub mod Cases
