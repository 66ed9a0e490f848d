-- What a plan means, laws of it, and what sending does to a wire.
pub mod Names
pub mod Plans
pub mod Sending
