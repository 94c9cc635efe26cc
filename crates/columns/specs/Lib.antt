pub mod Cell
pub mod Tables
pub mod Layout
pub mod Cases
pub mod Claims
pub mod inner
