pub mod Inputs
pub mod Picked
pub mod Standing
pub mod Views
pub mod Weight
