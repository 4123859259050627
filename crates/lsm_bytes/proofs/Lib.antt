pub mod Division
pub mod Entries
pub mod FirstFaults
pub mod Fronts
pub mod Places
pub mod Registers
pub mod Rotation
pub mod Spelling
