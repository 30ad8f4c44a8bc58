pub mod Low
pub mod Reach
pub mod Closed
pub mod Kinds
