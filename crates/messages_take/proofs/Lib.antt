pub mod TakenLaws
pub mod LoopLaws
pub mod StepLaws
pub mod TrialLaws
pub mod AbsentLaws
pub mod FittingLaws
pub mod Claims
pub mod Determined
