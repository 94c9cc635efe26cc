pub mod PlaceLaws
pub mod FirstLaws
pub mod PassLaws
pub mod BoardLaws
pub mod OrderLaws
pub mod Claims
pub mod Determined
