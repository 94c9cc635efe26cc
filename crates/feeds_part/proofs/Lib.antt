pub mod HeldLaws
pub mod ByteLaws
pub mod LineLaws
pub mod PartLaws
pub mod Determined
