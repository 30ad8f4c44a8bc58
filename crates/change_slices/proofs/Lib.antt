pub mod Once
pub mod Reading
pub mod Shown
pub mod Rooms
pub mod Renewed
pub mod Taking
pub mod Agree
