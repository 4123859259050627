pub mod Plans
pub mod Failing
