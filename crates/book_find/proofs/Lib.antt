pub mod CountLaws
pub mod FindLaws
pub mod HeldLaws
pub mod Claims
pub mod Determined
