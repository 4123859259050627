pub mod Holding
pub mod Keeping
pub mod Listing
pub mod Sparing
