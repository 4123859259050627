pub mod Views
pub mod Lanes
pub mod Moves
pub mod Ends
pub mod Gave
pub mod Dealt
pub mod Joined
