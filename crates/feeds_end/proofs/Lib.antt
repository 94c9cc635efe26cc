pub mod RowsLaws
pub mod EndLaws
pub mod Determined
