-- What the contracts of the exported functions cite; and the laws of their loops.
pub mod Counts
pub mod Loops
