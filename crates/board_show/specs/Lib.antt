pub mod Ask
pub mod Show
pub mod Claims
pub mod inner
