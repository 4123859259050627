pub mod Ties
pub mod Rooms
pub mod Crashes
