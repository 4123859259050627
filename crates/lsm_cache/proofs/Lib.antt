pub mod Forgetting
pub mod Gettings
pub mod Keeping
