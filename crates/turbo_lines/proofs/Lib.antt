pub mod LineLaws
pub mod LongLaws
pub mod MarkLaws
pub mod GrammarLaws
pub mod EndedLaws
pub mod Claims
pub mod Determined
