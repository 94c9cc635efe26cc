pub mod Day
pub mod Paper
