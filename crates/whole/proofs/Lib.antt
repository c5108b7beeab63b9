-- Laws of the whole numbers, in reading order. Nothing in them is assumed.
pub mod Difference
pub mod Polynomial
pub mod Certificate
pub mod Order
pub mod Size
pub mod Machine
pub mod TwosComplement
pub mod Rounding
pub mod Roots
pub mod Calls
pub mod WorkedRoot
pub mod Sums
pub mod Rows
