-- The relay's state and the calls: what each answers and leaves.
pub mod State
pub mod Calls
pub mod EventFiles
