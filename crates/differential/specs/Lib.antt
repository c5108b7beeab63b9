-- Percentage differential: what is compared, when a phase operates, and demand 3.
pub mod Differential
pub mod Demand3
pub mod Laws
pub mod Named
pub mod PaperMill
pub mod Sizes
