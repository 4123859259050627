pub mod Decoding
pub mod EditText
pub mod Edits
pub mod Levels
pub mod Orders
pub mod Reading
pub mod Versions
