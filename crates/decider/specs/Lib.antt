-- A law of the rules at the decider.
pub mod Marked
