pub mod SavedLaws
pub mod Claims
pub mod Determined
