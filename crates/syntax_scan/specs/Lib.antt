pub mod Scanned
pub mod Claims
pub mod Cases
pub mod inner
