-- Document 02, CR 7: the quadrilateral ground loops.
pub mod Quadrilateral
pub mod Laws
pub mod Sizes
