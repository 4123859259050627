pub mod BackupFiles
pub mod Lines
pub mod Metas
pub mod Numbers
