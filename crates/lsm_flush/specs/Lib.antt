pub mod Adding
pub mod Frozen
pub mod Writing
