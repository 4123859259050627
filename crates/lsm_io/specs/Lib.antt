pub mod Buffer
pub mod Causes
pub mod Draws
pub mod Scripted
pub mod Session
pub mod Stopping
pub mod Takes
