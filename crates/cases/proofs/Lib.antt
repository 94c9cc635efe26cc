pub mod DayLaws
pub mod Paper
