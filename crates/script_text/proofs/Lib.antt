pub mod TextLaws
pub mod Claims
pub mod Determined
