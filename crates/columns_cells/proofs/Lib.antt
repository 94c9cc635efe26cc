pub mod KindLaws
pub mod BlankLaws
pub mod WriteLaws
pub mod Determined
