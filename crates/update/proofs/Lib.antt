pub mod TableLaws
pub mod SetLaws
pub mod ApplyLaws
pub mod RuleLaws
pub mod InRangeLaws
pub mod Claims
pub mod Determined
