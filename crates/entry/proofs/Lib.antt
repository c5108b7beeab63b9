-- What belongs to no one function.
pub mod Pairs
pub mod Cases
pub mod Done
pub mod History
