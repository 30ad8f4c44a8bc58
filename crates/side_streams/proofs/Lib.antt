pub mod Short
pub mod Gathered
pub mod Told
