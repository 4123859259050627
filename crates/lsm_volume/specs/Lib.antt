pub mod Told
pub mod Room
pub mod Crash
pub mod Clock
