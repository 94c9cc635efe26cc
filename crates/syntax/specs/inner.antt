pub mod Quiet
pub mod Scan
