pub mod Block
pub mod Tested
pub mod Lots
pub mod Range
pub mod Way
pub mod Renew
