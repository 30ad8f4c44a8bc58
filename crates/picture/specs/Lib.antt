pub mod Drawn
pub mod Runs
pub mod Decimals
pub mod Steps
