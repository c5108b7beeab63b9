-- What a reader may rely on (documents 01 and 02) of what a decision says.
pub mod Bits
pub mod Demand2
pub mod Alike
pub mod SecondZone
pub mod Balanced
pub mod Change
pub mod Quadrilaterals
pub mod Demand3
