-- What is done to lent bytes.
pub mod Lent
pub mod Bytes
