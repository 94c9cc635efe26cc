pub mod Keys
pub mod Sorted
pub mod Replay
pub mod Kept
pub mod Claims
pub mod Cases
