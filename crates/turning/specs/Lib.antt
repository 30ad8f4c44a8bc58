pub mod Boundary
pub mod Jobs
pub mod JobCalls
pub mod Files
pub mod FileCalls
pub mod Passes
