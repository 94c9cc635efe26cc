pub mod AnswerLaws
pub mod DossierLaws
pub mod Claims
pub mod Determined
