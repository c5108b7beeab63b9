-- What belongs to no one function: the numbers of bytes, and what the first missing number is.
pub mod Bytes
pub mod Missing
