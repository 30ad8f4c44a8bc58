pub mod Change
pub mod Commit
pub mod Decide
pub mod Difference
