-- Laws of the percentage differential: sizes, what operates, and demand 3 from one end to all.
pub mod Sizes
pub mod Phase
pub mod Filled
pub mod Rule
pub mod OneEnd
pub mod AllEnds
pub mod Demand3
pub mod Bands
pub mod Used
pub mod Laws
pub mod SlopeOfChange
pub mod PaperMill
