pub mod FileNameLemmas
pub mod FolderLemmas
pub mod NumberLemmas
pub mod PathLemmas
pub mod Roots
pub mod SessionLemmas
pub mod SharedNameLemmas
pub mod TextLemmas
