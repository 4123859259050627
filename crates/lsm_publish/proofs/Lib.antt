pub mod Olds
pub mod Writing
pub mod Switching
pub mod Joining
pub mod Answering
