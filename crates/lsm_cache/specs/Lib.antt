pub mod Getting
pub mod Kept
pub mod Lending
