pub mod Counts
pub mod Copying
pub mod OnDisk
pub mod InHand
