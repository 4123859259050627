pub mod EntryLists
pub mod EntryParts
pub mod Keys
pub mod Prefixes
pub mod Readings
pub mod Restarts
pub mod Sought
pub mod Writings
