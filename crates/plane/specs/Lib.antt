-- Complex numbers with whole parts: what is done with them, and how large they get.
pub mod Plane
pub mod Sizes
