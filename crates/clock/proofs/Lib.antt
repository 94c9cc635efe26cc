pub mod BelowLaws
pub mod DateLaws
pub mod MonthLaws
pub mod DayLaws
pub mod CalendarLaws
pub mod Claims
pub mod Determined
