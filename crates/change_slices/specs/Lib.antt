pub mod Read
pub mod Proposal
pub mod Move
pub mod Kept
