pub mod Steps
pub mod Held
pub mod Best
pub mod Eroding
pub mod Finite
