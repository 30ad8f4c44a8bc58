pub mod Wheel
pub mod Table
