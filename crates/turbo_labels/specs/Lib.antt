pub mod Columns
pub mod Claims
pub mod Cases
pub mod inner
