-- What belongs to no one function.
pub mod Standing
pub mod TakeIn
pub mod Finishing
pub mod Calls
pub mod Next
