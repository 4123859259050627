pub mod Codes
pub mod FileNames
pub mod Folders
pub mod Numbers
pub mod Paths
pub mod Sessions
pub mod SharedNames
pub mod Texts
