pub mod Layout
pub mod Ranges
pub mod Facts
pub mod Claims
pub mod Cases
pub mod inner
