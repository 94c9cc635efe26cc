pub mod Saved
pub mod Claims
