-- What the proofs cite.
pub mod Equality
