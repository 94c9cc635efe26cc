pub mod StandsLaws
pub mod AnswerLaws
pub mod RowsLaws
pub mod NamesLaws
pub mod WorkLaws
pub mod ReworkLaws
pub mod RoomLaws
pub mod Determined
