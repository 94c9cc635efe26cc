pub mod Orders
pub mod Claims
pub mod Cases
