pub mod Escape
pub mod Split
pub mod Told
pub mod Claims
pub mod Cases
pub mod inner
