pub mod Job
pub mod Tool
pub mod Run
pub mod History
pub mod Refused
pub mod Wrote
pub mod Offending
pub mod Which
