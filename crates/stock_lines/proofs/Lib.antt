pub mod Forms
pub mod Steps
pub mod EachLine
pub mod Firsts
pub mod Rooms
pub mod Readings
