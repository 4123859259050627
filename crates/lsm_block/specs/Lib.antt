pub mod BlockText
pub mod Blocks
pub mod Parts
pub mod Runs
pub mod Seek
pub mod TableText
