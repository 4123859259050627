pub mod Installing
pub mod Reading
pub mod Shown
pub mod Standing
pub mod Texts
