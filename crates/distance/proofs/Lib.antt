-- How large the settings and the quantities of the loops are, and the laws that a reader will look for.
pub mod Sizes
pub mod Laws
