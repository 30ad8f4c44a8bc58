pub mod Reading
pub mod Taking
pub mod Putting
