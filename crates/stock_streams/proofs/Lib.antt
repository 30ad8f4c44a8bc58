pub mod Taking
pub mod Putting
