pub mod Places
pub mod Refusing
pub mod Growing
pub mod Calls
pub mod Doing
pub mod Exits
pub mod Lasting
pub mod Finishing
