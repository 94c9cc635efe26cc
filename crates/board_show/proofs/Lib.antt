pub mod AskLaws
pub mod TextLaws
pub mod ShowLaws
pub mod Claims
pub mod Determined
