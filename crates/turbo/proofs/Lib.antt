pub mod SplitLaws
pub mod GrammarLaws
pub mod BarLaws
pub mod Claims
pub mod Determined
