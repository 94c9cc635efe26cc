pub mod LeavesLaws
pub mod Claims
