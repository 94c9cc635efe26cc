pub mod Texts
pub mod Facts
pub mod Cases
pub mod Claims
pub mod inner
