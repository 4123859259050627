pub mod Histories
pub mod Files
pub mod Replays
