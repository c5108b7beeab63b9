-- What a frame that is fed is answered, and what it leaves.
pub mod Feed
