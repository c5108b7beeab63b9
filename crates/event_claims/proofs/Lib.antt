-- The proofs of the statements in specs/.
pub mod One
pub mod GivenBack
pub mod Following
pub mod Files
pub mod Ending
