-- The law of the loops that count.
pub mod Counting
