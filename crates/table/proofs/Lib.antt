pub mod SoundLaws
pub mod RowKeyLaws
pub mod RowMoveLaws
pub mod StoreTwiceLaws
pub mod RunLaws
pub mod Claims
pub mod Determined
