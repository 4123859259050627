pub mod Checksum
pub mod Faults
pub mod Numbers
pub mod Varint
