pub mod Moves
pub mod Rule
pub mod Claims
pub mod Cases
