-- The proofs of the statements in specs/.
pub mod Bits
pub mod Demand2
pub mod Alike
pub mod SecondZone
pub mod Balanced
pub mod Change
pub mod Quadrilaterals
pub mod Demand3
