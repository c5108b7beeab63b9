-- What a window is, what a missing sample in it is, and how many numbers the code takes out of bytes.
pub mod Window
pub mod Order
pub mod Sizes
