pub mod Feed
pub mod Kept
pub mod Feeding
pub mod Claims
pub mod Cases
pub mod inner
