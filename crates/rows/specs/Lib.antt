pub mod Shape
pub mod Reading
pub mod Claims
pub mod Cases
