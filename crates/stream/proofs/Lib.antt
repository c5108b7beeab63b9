-- What belongs to no one function: laws of windows, of their bytes and of their histories.
pub mod Bytes
pub mod Moving
pub mod Reading
pub mod Storing
pub mod History
