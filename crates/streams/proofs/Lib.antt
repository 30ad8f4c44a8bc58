pub mod Gathered
pub mod Moved
