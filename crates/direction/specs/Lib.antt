-- Document 01, "Sequence quantities and direction".
pub mod Sequence
pub mod Direction
pub mod Laws
pub mod Sizes
