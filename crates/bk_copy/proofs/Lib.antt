pub mod Copies
pub mod Files
pub mod Hands
