-- The two-entry rule: the pair of records, what each entry answers and leaves, and what a log of entries shows.
pub mod Pair
pub mod Entry
pub mod Log
