pub mod Answered
pub mod Batches
pub mod Making
pub mod Reading
pub mod Shown
pub mod Standing
pub mod Stepping
