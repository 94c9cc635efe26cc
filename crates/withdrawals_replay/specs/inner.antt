pub mod Slots
pub mod Worked
