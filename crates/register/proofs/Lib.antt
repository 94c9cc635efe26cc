pub mod ChunkLaws
pub mod RegisterLaws
pub mod Claims
pub mod Determined
