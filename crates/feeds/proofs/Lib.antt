pub mod KeptLaws
pub mod StepFitLaws
pub mod FitLaws
pub mod Claims
pub mod Determined
