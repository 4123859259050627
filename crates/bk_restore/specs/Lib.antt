pub mod Refusals
pub mod Causes
pub mod Wrong
pub mod Sources
pub mod Hands
pub mod Restored
pub mod Held
