pub mod FileNames
pub mod FolderDests
