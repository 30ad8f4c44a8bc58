pub mod Material
pub mod Envelope
pub mod Looked
pub mod Volume
pub mod Pass
