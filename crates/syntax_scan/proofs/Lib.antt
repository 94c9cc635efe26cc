pub mod ScannedLaws
pub mod TurnLaws
pub mod Claims
pub mod Determined
