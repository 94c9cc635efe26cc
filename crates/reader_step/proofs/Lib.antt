pub mod WidthLaws
pub mod RowStepLaws
pub mod StepLaws
pub mod Claims
pub mod Determined
