pub mod Keeping
pub mod SharedLines
