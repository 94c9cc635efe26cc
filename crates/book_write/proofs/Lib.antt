pub mod WriteLaws
pub mod NumberLaws
pub mod Determined
