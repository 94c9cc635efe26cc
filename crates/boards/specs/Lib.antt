pub mod Leaves
pub mod Claims
