pub mod Job
pub mod Run
pub mod InParts
