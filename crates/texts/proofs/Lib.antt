pub mod ReadingLaws
pub mod KeptLaws
pub mod PlainLaws
pub mod Claims
pub mod Determined
