-- Cut anywhere; records joined and read; records done by hand; what a caller knows, and the last number.
pub mod Cut
pub mod Joined
pub mod ByHand
pub mod Known
pub mod Follow
