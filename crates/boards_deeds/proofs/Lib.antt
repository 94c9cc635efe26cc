pub mod DeedLaws
pub mod Determined
