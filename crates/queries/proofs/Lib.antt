pub mod Passes
pub mod Walks
pub mod Envelopes
pub mod Looks
pub mod Sights
pub mod Outcomes
pub mod Stored
pub mod Signs
