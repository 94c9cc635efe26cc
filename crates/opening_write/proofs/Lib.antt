pub mod WriteLaws
pub mod SortLaws
pub mod StageLaws
pub mod Determined
