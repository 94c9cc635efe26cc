pub mod AreaLaws
pub mod PairLaws
pub mod StageLaws
pub mod Determined
