pub mod Cuts
pub mod Check
pub mod Steps
pub mod Propose
