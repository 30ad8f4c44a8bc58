pub mod Envelope
pub mod Halving
pub mod Full
