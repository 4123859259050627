pub mod Chosen
pub mod Lowered
pub mod Sound
pub mod Steps
pub mod Weights
