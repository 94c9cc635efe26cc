pub mod SlotLaws
pub mod SlotWriteLaws
pub mod BeginLaws
pub mod TableLaws
pub mod SettleLaws
pub mod TakeLaws
pub mod HeardLaws
pub mod Determined
