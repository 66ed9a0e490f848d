-- What an effect means, and laws of the rules that give it.
pub mod Names
pub mod Effects
pub mod Leaving
pub mod Room
