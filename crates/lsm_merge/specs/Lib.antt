pub mod HeadOrder
pub mod Held
pub mod Merging
pub mod Order
pub mod Runs
pub mod Steps
