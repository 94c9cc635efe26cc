pub mod OrderLaws
pub mod Claims
pub mod Determined
