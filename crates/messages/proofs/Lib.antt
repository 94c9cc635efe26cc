pub mod SoundLaws
pub mod WriteLaws
pub mod TakeLaws
pub mod ReadLaws
pub mod Determined
