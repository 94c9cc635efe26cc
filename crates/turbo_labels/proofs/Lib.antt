pub mod ColumnLaws
pub mod PlaceLaws
pub mod LookupLaws
pub mod Claims
pub mod Determined
