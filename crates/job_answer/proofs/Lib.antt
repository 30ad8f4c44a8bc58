pub mod Nth
pub mod Distinct
pub mod Samples
