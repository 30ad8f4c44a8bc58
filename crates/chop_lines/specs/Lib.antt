pub mod Words
pub mod Scan
pub mod Reads
pub mod Spelled
pub mod Chopped
