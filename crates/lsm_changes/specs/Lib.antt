pub mod What
pub mod History
pub mod Files
pub mod Replay
