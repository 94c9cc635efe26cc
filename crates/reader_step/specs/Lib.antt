pub mod Place
pub mod Step
pub mod Claims
