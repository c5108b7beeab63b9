-- What belongs to no one function: bytes exchanged, what good ends and a good file are, and records made and taken apart.
pub mod Swapped
pub mod Writing
pub mod Made
