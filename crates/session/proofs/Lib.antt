-- What belongs to no one function.
pub mod Behind
pub mod Lines
pub mod Windows
pub mod Entries
