pub mod Catalogs
pub mod Closing
pub mod Looking
pub mod Obsolete
pub mod Reading
pub mod Searching
