pub mod Asking
pub mod Splitting
pub mod Walks
