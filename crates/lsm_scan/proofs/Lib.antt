pub mod Newest
pub mod Sorted
pub mod Sorting
