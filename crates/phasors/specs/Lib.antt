-- Document 01, "Window and phasors": the sums and the phasor of a channel, and the grid.
pub mod Rate
pub mod Sums
pub mod Grid
pub mod Sizes
