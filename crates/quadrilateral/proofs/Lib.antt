-- How large the quantities of a quadrilateral are, and the laws that a reader will look for.
pub mod Sizes
pub mod Laws
