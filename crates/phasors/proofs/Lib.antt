-- Laws of the sums, the phasors and the grid.
pub mod Weights
pub mod Totals
pub mod Zero
