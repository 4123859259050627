pub mod Places
pub mod Listed
pub mod Holds
pub mod Reached
pub mod Kept
pub mod Sound
