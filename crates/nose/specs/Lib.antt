pub mod Capsule
pub mod Nose
pub mod Track
