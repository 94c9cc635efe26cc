pub mod CutLaws
pub mod Determined
