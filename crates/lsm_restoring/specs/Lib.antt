pub mod Restoring
pub mod Calls
