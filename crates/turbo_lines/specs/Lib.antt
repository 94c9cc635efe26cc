pub mod Lines
pub mod Told
pub mod Ended
pub mod Claims
pub mod Cases
