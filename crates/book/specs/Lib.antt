pub mod Entries
pub mod Rules
pub mod Facts
pub mod Reckoned
pub mod Gaps
pub mod Claims
pub mod Cases
pub mod inner
