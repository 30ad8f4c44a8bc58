pub mod File
pub mod Hands
