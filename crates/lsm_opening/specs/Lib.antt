pub mod Edits
pub mod Finding
pub mod Installing
pub mod Numbers
pub mod Recovering
pub mod RowFiles
pub mod RowTables
